-- Laws of the reasons, each file named after what it is about.
pub mod Ran
pub mod Reasons
