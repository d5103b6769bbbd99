pub mod Chains
pub mod Copying
pub mod Growing
