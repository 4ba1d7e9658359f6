-- The laws and theorems of `recent` that belong to no one function.
pub mod NoteLaws
