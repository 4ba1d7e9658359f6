-- The laws and theorems of `words` that belong to no one function.
pub mod SumLaws
pub mod WordLaws
