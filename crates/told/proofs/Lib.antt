-- What is told of an answer.
pub mod Telling
