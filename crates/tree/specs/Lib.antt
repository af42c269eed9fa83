-- How the tree entries hold a derivation.
pub mod Recorded
