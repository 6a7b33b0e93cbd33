-- Row tables: what a row is, and the row of a return offset in tables of version 1 and 2 (document 01, "Rows and reasons").
pub mod Row
pub mod Handler
pub mod Handler2
pub mod Prefix
pub mod NotRefused
pub mod Answers
pub mod Held
pub mod Faults
