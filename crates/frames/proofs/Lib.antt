-- The laws that the proofs of several functions cite.
pub mod Parts
pub mod Naming
pub mod Listing
pub mod Chains
pub mod Words
pub mod Loops
pub mod Found
pub mod Tables
pub mod Tells
pub mod Fine
