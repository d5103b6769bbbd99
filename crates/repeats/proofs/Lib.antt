pub mod Intervals
pub mod Repeating
pub mod Tables
