-- Rows of counts and credits over the states.
pub mod Rows
