-- What the long-form call promises.
pub mod Calls
pub mod Telling
