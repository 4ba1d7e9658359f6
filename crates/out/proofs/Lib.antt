-- The laws of `out` that belong to no one function.
pub mod OutLaws
