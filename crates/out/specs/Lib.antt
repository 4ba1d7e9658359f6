-- The definitions of `out`.
pub mod Out
