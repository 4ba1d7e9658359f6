-- The laws and theorems of `filler` that belong to no one function.
pub mod FillLaws
pub mod Theorems
pub mod RefusalLaws
