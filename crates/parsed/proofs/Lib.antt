pub mod Joining
pub mod Shapes
pub mod Storing
