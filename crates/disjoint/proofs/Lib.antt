-- The laws of the disjointness test.
pub mod Numbers
pub mod Tabling
pub mod Filling
pub mod Including
pub mod Mandatory
pub mod Keeping
