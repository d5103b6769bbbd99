pub mod Marking
pub mod Specimens
pub mod Vetting
