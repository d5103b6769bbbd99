pub mod Fills
pub mod Gathers
