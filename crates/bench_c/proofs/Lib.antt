-- The calls for C and Rust meet their contracts.
pub mod Wording
pub mod Longing
