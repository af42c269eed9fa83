-- The examples.
pub mod Hex
pub mod Witnesses
pub mod Vectors
pub mod Reading
