-- What the buffers of the engine show.
pub mod RawSet
pub mod Prepared
pub mod Hypothesis
pub mod Ready
pub mod Place
pub mod Roster
