-- The letters.
pub mod Alphabet
pub mod Flipped
