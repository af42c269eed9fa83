-- The laws of what the program writes.
pub mod Lengths
pub mod LineLaws
pub mod SoFar
pub mod Whole
pub mod Examples
