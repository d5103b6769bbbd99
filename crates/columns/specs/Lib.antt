-- Tables over the positions and over the letters.
pub mod Tables
