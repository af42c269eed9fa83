-- What the calls answer.
pub mod Calls
