-- The laws that callers cite, each file named after the definition that it is about.
pub mod Arch
pub mod File
pub mod Known
pub mod Preserved
pub mod InPlace
