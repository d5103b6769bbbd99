-- Proofs about patterns: positions, links, runs, texts and readings, intervals; what acceptance says; the specimens.
pub mod Accepted
pub mod Bounds
pub mod Doubled
pub mod Follows
pub mod Intervals
pub mod Link
pub mod Moved
pub mod Numbers
pub mod Own
pub mod RunTexts
pub mod Runs
pub mod Specimens
pub mod Texts
pub mod Useful
pub mod Within
pub mod Written
