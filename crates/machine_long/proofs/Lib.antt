-- The quicker way to an answer, that it gives the same, and what it gives on the example.
pub mod Quick
pub mod Moved
pub mod Same
pub mod ManyVariables
