-- The definitions of `recent`.
pub mod Notes
