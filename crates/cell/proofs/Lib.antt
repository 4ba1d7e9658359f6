-- The laws of `cell`.
pub mod WriteLaws
pub mod ReadLaws
