-- What tables say of a graph.
pub mod Tables
