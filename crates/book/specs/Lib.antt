-- What a derivation is.
pub mod Book
