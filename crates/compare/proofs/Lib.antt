-- The laws and theorems of `compare` that belong to no one function.
pub mod JoinLaws
pub mod SameLaws
pub mod ZeroLaws
