pub mod Links
pub mod Walks
pub mod Counting
pub mod Best
pub mod Marks
pub mod Taken
pub mod Bounds
