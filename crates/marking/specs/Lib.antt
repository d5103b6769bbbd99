-- What the calls for C promise.
pub mod Packing
pub mod ForC
