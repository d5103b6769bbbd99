-- The text of the way to a goal.
pub mod Texts
