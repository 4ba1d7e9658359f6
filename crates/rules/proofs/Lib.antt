-- The laws and theorems of `rules` that belong to no one function.
pub mod FirstLaws
pub mod GroupLaws
