-- The long-form call meets its contract.
pub mod Accepting
pub mod Answering
pub mod Promise
