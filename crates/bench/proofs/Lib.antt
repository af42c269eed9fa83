-- The calls meet their contracts.
pub mod Checking
pub mod Promise
pub mod Small
