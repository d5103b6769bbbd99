-- Sets of numbers in a u64.
pub mod Bits
