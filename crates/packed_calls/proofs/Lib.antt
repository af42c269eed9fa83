-- The laws of the test of the images, and of the answers.
pub mod Ranges
pub mod Answering
