-- What is written of a recorded derivation, where it fits.
pub mod Long
