-- What the two calls promise.
pub mod Marking
pub mod Vetting
