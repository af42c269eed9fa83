-- The laws of the start of a run.
pub mod Firsts
pub mod Starting
