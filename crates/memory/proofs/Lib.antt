-- The laws of the working memory.
pub mod Tables
pub mod Stored
pub mod Showing
pub mod Ending
pub mod Saving
