-- The signs in a token.
pub mod Signs
