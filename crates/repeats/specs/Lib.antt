-- Atoms that are repeated.
pub mod Repeats
