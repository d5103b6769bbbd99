-- What the program `vet` writes.
pub mod Lines
