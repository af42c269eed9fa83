-- The laws of the index of labels.
pub mod Chain
