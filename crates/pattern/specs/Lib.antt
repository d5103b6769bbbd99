-- The rules of patterns, in the order of docs/RULES.md: the grammar and what it reads, the refusals, the positions, POSIX's texts.
-- A name in brackets is the rule's heading there.
pub mod Parts
pub mod Grammar
pub mod Refusals
pub mod Positions
pub mod Texts
