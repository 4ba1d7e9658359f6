-- The laws and theorems of `form` that belong to no one function.
pub mod Examples
pub mod HexLaws
pub mod TextLaws
pub mod ReadLaws
pub mod FormLaws
pub mod StepLaws
pub mod NameLaws
pub mod TableLaws
pub mod RunLaws
