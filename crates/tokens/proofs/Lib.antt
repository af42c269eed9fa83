-- The laws of signs and letters, and of the halves and the parts of a token.
pub mod Signs
pub mod Halves
pub mod Split
