-- The laws of `refusal` that belong to no one function.
pub mod NumberLaws
