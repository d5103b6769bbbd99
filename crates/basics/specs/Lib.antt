-- What the rules of more than one crate are written with.
pub mod Bytes
pub mod Folds
pub mod Lists
