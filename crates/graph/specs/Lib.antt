-- The graph of positions; readings, count and mark in it, and how many letters are taken; the built pattern.
pub mod Graph
pub mod Readings
pub mod Taken
pub mod Built
pub mod Trim
