pub mod Entries
pub mod Letters
