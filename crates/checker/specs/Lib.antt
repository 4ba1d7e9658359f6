-- The definitions of `checker`.
pub mod Answer
pub mod Rows
pub mod Steps
