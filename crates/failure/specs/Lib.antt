-- What every other crate's definitions are written with: what a call comes to, and the numbers of document 01.
pub mod Outcome
pub mod Failure
