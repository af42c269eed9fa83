-- How long the text of a recorded derivation is.
pub mod Measured
