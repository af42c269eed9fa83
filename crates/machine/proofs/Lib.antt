-- The laws about a run.
pub mod Rows
pub mod Gives
pub mod Every
pub mod Bound
pub mod Disjoint
pub mod Follow
pub mod Holds
pub mod Prepared
pub mod Applied
pub mod Numbers
pub mod Acceptance
pub mod Counts
pub mod Stepped
