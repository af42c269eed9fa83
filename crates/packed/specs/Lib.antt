-- Packed expressions and the pool.
pub mod Packing
pub mod Pool
pub mod Compare
pub mod Images
pub mod Lists
