-- Where the parts of a token stand in the text.
pub mod Spans
