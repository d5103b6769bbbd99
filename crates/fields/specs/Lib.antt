-- The fields of a line, and texts put into a slice.
pub mod Fields
