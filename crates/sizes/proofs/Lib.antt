-- The laws about sizes.
pub mod Caps
pub mod Measuring
pub mod Passing
