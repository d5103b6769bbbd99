-- What a function gives that reads the front of a text.
pub mod Reads
