-- The laws and theorems of `lines` that belong to no one function.
pub mod ReadLaws
pub mod CountLaws
pub mod RecallLaws
pub mod WriteLaws
pub mod PassLaws
