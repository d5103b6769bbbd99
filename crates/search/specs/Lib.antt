-- A search: what holds while it is under way and once it is over.
pub mod Search
