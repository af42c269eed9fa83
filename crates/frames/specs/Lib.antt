-- The definitions of the frame file, in the order in which they are read.
pub mod Logic
pub mod Layout
pub mod Table
pub mod Verdict
pub mod Database
pub mod Search
pub mod Facts
