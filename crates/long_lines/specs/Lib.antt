-- What the program that writes long forms writes.
pub mod LongLines
pub mod Writing
