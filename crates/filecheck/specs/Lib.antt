-- What the file check does besides answering the verdict.
pub mod Walk
