-- The laws of the engine.
pub mod RawSets
pub mod RawNumbers
pub mod Hypotheses
pub mod Leaves
pub mod Readying
pub mod Placed
pub mod Rostering
