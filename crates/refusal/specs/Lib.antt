-- The definitions of `refusal`.
pub mod Refusals
