-- The laws and theorems of `count` that belong to no one function.
pub mod CountLaws
