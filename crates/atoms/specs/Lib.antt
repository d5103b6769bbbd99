-- What reading a lettered atom promises.
pub mod Atoms
