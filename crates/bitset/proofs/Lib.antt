-- The laws of `bitset`, over lists of words of any length.
pub mod Bits
pub mod Laws
pub mod Listed
pub mod Made
pub mod Ahead
pub mod Steps
pub mod Promises
pub mod Examples
