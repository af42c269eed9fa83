-- What applying an assertion does.
pub mod Hyps
pub mod Claim
pub mod Step
