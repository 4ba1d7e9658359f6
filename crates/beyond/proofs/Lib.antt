-- The laws of `beyond`.
pub mod ShiftLaws
pub mod TableLaws
