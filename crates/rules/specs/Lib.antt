-- The definitions of `rules`.
pub mod First
pub mod Groups
pub mod Kept
