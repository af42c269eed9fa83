-- The index of labels.
pub mod Labelled
