-- The example.
pub mod ManyVariables
