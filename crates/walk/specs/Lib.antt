-- The walk over all $p of a file.
pub mod Walk
