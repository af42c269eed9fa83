-- The laws of the tokens.
pub mod Tokening
pub mod Rostering
