-- Where a run stands, and what reading on does.
pub mod Running
pub mod Read
pub mod Reads
pub mod Letters
