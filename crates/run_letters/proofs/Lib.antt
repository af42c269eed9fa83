-- The laws of the letters.
pub mod Lettering
