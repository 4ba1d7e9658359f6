-- The definitions of `filler`.
pub mod Fill
pub mod Answer
