-- What the calls answer.
pub mod Answers
