-- A part as it is parsed, and the rows and the tables that it adds to.
pub mod Tables
pub mod Parsed
