-- The laws of recording.
pub mod Noting
