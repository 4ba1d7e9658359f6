-- The definitions of `beyond`.
pub mod Shifted
