-- What the definition of a run computes.
pub mod Witnesses
pub mod Vectors
pub mod Reading
