-- The definitions of `writer`.
pub mod Stores
