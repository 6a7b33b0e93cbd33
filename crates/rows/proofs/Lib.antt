-- Laws of the row tables, each file named after what it is about.
pub mod Entries
pub mod Halving
pub mod Held
pub mod Rows2
pub mod Short
pub mod Left
pub mod Actions
pub mod Rising
pub mod Prefix
pub mod NotRefused
pub mod Listed
pub mod Section
pub mod Refusals
pub mod Faults
