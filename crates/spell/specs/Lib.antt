-- What the words of a recorded derivation name, and what is written of it.
pub mod Words
pub mod Text
