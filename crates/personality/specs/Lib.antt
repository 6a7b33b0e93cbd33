-- The reasons of the built-in personality (document 01, "Rows and reasons").
pub mod Reason
pub mod Answers
