pub mod Alphabet
pub mod Flipping
