-- What the functions promise that read a class.
pub mod Classes
