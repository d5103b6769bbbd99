pub mod Values
pub mod Forward
pub mod Shown
