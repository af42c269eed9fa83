-- What comes after a normal step and at the end of a proof.
pub mod Local
pub mod End
