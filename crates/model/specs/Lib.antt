-- The definitions of `model`.
pub mod Columns
pub mod Tests
pub mod State
pub mod Steps
pub mod Constraints
pub mod Cycles
pub mod Verdict
pub mod Trace
pub mod Promises
pub mod Alone
pub mod Wrong
pub mod Adverse
