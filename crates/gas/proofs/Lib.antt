-- The laws and theorems of `gas` that belong to no one function.
pub mod GasLaws
pub mod PaperLaws
pub mod ExampleLaws
