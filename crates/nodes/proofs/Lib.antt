pub mod Nodes
pub mod TakingUp
