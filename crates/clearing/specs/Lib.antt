-- Clearing a lent buffer.
pub mod Cleared
