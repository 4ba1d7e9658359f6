-- The laws and theorems of `long` that belong to no one function.
pub mod LongLaws
