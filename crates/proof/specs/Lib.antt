-- The whole proof.
pub mod Whole
