pub mod Tracing
pub mod Letters
