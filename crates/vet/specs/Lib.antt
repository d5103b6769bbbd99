-- What the program's functions promise at an error.
pub mod Written
