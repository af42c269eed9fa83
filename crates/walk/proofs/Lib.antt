-- The walk meets its contract.
pub mod Next
pub mod SoFar
pub mod Filewise
pub mod Promise
