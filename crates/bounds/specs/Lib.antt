-- What reading an interval gives.
pub mod Bounds
