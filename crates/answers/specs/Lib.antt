-- The answer of a call as one number.
pub mod Packed
