-- The laws and theorems of `writer` that belong to no one function.
pub mod PutLaws
pub mod GroupLaws
