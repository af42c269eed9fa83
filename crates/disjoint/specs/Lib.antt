-- The disjointness test of an assertion.
pub mod Disjoint
