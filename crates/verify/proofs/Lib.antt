-- The laws and theorems of `verify` that belong to no one function.
pub mod ReportLaws
pub mod OneAnswer
