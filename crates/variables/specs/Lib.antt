-- The numbering of variables.
pub mod Numbering
