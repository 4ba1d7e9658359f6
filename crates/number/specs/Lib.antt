-- The definitions of `number`.
pub mod Tests
pub mod Num
pub mod Digits
pub mod Cells
pub mod Sums
pub mod Whole
pub mod Tables
