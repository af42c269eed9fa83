-- The laws of spans.
pub mod Spanning
