-- The law of clearing.
pub mod Clearing
