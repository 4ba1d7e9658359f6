-- The laws and theorems of `last` that belong to no one function.
pub mod EndLaws
pub mod LastLaws
pub mod Theorems
pub mod RefusalLaws
