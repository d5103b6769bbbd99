-- What sets and rows of positions say.
pub mod Rows
