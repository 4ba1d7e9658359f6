-- The laws and theorems of `cycle` that belong to no one function.
pub mod DigitLaws
pub mod MadeLaws
pub mod CycleLaws
