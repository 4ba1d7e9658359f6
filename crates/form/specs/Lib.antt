-- The definitions of `form`.
pub mod Ascii
pub mod Hex
pub mod Table
pub mod Read
pub mod Form
pub mod Plain
