-- The laws and theorems of `checker` that belong to no one function.
pub mod RowLaws
pub mod StartLaws
pub mod CycleLaws
pub mod RefusalLaws
