pub mod Places
pub mod Rests
