-- The definitions of `mxp`.
pub mod Out
