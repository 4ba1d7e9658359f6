-- The laws of `growth` that belong to no one function.
pub mod EndLaws
