-- Reading the bytes of a proof's text.
pub mod Next
pub mod Bytes
