-- The definitions of `verify`.
pub mod Report
