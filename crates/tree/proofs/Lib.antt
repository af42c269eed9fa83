-- The laws of recorded derivations.
pub mod Recording
