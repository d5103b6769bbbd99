pub mod Reading
pub mod Writing
