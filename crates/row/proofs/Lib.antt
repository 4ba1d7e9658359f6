-- The laws and theorems of `row` that belong to no one function.
pub mod PlaceLaws
pub mod RowLaws
pub mod GroupLaws
