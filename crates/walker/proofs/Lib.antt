-- The laws and theorems of `walker` that belong to no one function.
pub mod NumberLaws
pub mod Called
pub mod Held
pub mod Lent
pub mod Theorems
pub mod RefusalLaws
