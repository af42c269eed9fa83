-- The line that tells a verdict.
pub mod Text
