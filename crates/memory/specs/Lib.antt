-- The working memory of a run.
pub mod Table
pub mod Outcome
pub mod Shown
