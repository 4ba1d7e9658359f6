-- The laws and theorems of `ground` that belong to no one function.
pub mod AgreeLaws
pub mod VectorLaws
