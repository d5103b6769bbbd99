pub mod Tests
pub mod Lists
pub mod Folds
pub mod Integers
pub mod Steps
