-- The laws of `part` that belong to no one function.
pub mod StepLaws
