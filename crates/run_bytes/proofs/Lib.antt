-- The laws of the bytes.
pub mod Byting
pub mod Looping
