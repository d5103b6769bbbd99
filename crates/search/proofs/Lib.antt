pub mod Levels
pub mod Visiting
pub mod Moves
pub mod Found
pub mod Pivoting
