-- The laws that callers cite, each file named after what it is about.
pub mod Reader
pub mod Sofar
pub mod Meaning
pub mod Numbers
pub mod Section
pub mod Faults
