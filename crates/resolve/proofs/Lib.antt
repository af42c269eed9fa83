-- The laws of labels: the file and its index, searches, local labels, and what a step is.
pub mod Filing
pub mod Naming
pub mod Placing
pub mod Resolving
