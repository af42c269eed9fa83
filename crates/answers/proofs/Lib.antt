-- The laws of packed answers.
pub mod Unpacking
