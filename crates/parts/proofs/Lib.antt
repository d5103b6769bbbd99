pub mod Folding
pub mod Parsing
