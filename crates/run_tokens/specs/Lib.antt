-- Reading a token.
pub mod Tokens
