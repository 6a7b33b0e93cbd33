-- The numbers of the two architectures, and register files.
pub mod Arch
pub mod File
pub mod Public
pub mod Answers
