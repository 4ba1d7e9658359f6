-- The definitions of `growth`.
pub mod Numbers
