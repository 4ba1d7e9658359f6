-- The laws and theorems of `list` that belong to no one function.
pub mod Examples
pub mod PartLaws
pub mod LineLaws
pub mod ListLaws
