-- The marked examples of document 01, "Bench examples".
pub mod Example
pub mod Table
