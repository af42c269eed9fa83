-- The laws of the findings.
pub mod Finishing
