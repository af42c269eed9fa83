-- The laws about good frame files.
pub mod Examples
pub mod Kept
pub mod Rows
pub mod History
pub mod Texts
pub mod Decoded
pub mod GoodSymbols
pub mod Shapes
pub mod Meaning
pub mod GoodStatements
pub mod GoodFacts
pub mod Unique
pub mod InOrder
pub mod Searches
