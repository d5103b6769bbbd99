-- The nodes of a search: what they are, the steps between them, and which are taken up.
pub mod Nodes
pub mod Taken
