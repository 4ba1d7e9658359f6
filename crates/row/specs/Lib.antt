-- The definitions of `row`.
pub mod Plain
pub mod Places
pub mod Group
