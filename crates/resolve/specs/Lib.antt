-- What a label names: the file and its tables, the local labels, and what an answer stands for.
pub mod Filed
pub mod Locals
pub mod Readied
pub mod Resolve
