pub mod Putting
pub mod Fields
