pub mod Depth
pub mod Building
pub mod Enough
