pub mod Calls
pub mod Demands
pub mod Packing
pub mod Stored
