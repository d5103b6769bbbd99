-- Stretches of tables that are copied on.
pub mod Copies
