-- The laws of numbering.
pub mod Numbering
pub mod Pairs
pub mod Floats
