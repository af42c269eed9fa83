-- The laws of lines, and worked examples.
pub mod Extending
pub mod Examples
