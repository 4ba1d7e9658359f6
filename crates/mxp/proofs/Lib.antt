-- The laws of `mxp` that belong to no one function.
pub mod PartLaws
