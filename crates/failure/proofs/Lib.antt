-- What the definitions of the numbers come to.
pub mod Causes
pub mod Outcome
