-- The laws of the last token and of the whole proof.
pub mod LastToken
pub mod Whole
