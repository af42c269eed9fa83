-- The laws of marks and seats.
pub mod Marking
pub mod Checking
pub mod Counting
pub mod Seating
pub mod Settling
