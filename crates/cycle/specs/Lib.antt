-- The definitions of `cycle`.
pub mod Within
pub mod Made
