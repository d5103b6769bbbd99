-- What parsing gives.
pub mod Parsing
