pub mod Counting
pub mod Linking
