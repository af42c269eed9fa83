-- The laws of what comes after a step and at the end.
pub mod Labelling
pub mod Finishing
