-- The laws and theorems of `claim` that belong to no one function.
pub mod ClaimLaws
pub mod PaperLaws
