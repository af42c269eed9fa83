-- The laws of packing and of the pool.
pub mod Packs
pub mod Written
pub mod Copies
pub mod Adding
pub mod Joining
pub mod Symbols
pub mod Pieces
pub mod Comparing
pub mod Imaging
pub mod Numbering
pub mod Lists
