-- What a proof comes to.
pub mod Answers
pub mod Tells
