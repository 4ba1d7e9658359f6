-- The definitions of `last`.
pub mod Last
pub mod Search
