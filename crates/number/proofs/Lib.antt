-- The laws and theorems of `number` that belong to no one function.
pub mod NumLaws
pub mod DigitLaws
pub mod CellLaws
pub mod SumLaws
pub mod WholeLaws
pub mod StoreLaws
pub mod TestLaws
pub mod TableLaws
