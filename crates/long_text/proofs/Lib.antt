-- The laws of a text that is written where it fits.
pub mod Answers
pub mod Fitting
