-- The definitions of `account`.
pub mod Report
pub mod Room
