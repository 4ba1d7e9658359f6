-- The laws and theorems of `text` that belong to no one function.
pub mod DecimalLaws
pub mod PutLaws
