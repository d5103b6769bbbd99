-- Copies of a part, one after the other.
pub mod Chains
