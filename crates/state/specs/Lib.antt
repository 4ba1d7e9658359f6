-- The definitions of `state`.
pub mod Plain
pub mod Order
pub mod Look
