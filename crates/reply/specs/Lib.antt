-- What the program writes.
pub mod Output
pub mod Replies
