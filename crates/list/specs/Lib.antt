-- The definitions of `list`.
pub mod Line
pub mod List
pub mod Told
