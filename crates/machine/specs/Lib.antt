-- The definition of a run, in the order in which it is read.
pub mod Chain
pub mod Passed
pub mod Answer
pub mod Ground
pub mod Reading
pub mod Memory
pub mod Prepare
pub mod Apply
pub mod Run
pub mod Bench
pub mod Promise
pub mod Files
pub mod BenchTable
