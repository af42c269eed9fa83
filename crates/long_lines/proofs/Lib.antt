-- The laws of what the program that writes long forms writes.
pub mod Rooms
pub mod ToldLines
pub mod Checks
pub mod Examples
