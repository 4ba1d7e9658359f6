-- The laws and theorems of `state` that belong to no one function.
pub mod OrderLaws
pub mod SearchLaws
pub mod LookLaws
