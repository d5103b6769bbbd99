-- Tables of letters and credits.
pub mod Tables
