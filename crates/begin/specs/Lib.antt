-- What comes before the first token of a proof.
pub mod Begins
