-- The lines that the program prints.
pub mod Lines
pub mod Extends
