-- The sizes of our own tables.
pub mod Ours
