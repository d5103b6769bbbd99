pub mod Cutting
pub mod Vetting
pub mod Running
pub mod Written
