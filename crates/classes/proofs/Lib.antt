pub mod Members
pub mod Classing
