-- The laws of a recorded derivation that is written.
pub mod Opening
pub mod Pushing
pub mod Spacing
pub mod Tables
pub mod Turning
pub mod Writing
