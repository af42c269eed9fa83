-- The laws of applying an assertion.
pub mod OneHyp
pub mod Processing
pub mod Claims
pub mod Noted
pub mod Steps
