-- The answer as numbers.
pub mod Answer
