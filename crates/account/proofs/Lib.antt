-- The laws and theorems of `account` that belong to no one function.
pub mod ReportLaws
pub mod OneAnswer
