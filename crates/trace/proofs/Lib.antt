-- The laws and theorems of `trace` that belong to no one function.
pub mod AdmitLaws
pub mod PlaceLaws
pub mod Theorems
pub mod RefusalLaws
