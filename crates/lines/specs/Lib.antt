-- The definitions of `lines`.
pub mod Lines
pub mod Reading
