-- What reading a pattern gives.
pub mod Read
