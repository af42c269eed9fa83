-- Which entry goes to which hypothesis.
pub mod Marks
pub mod Seats
