-- The answers of the C interface, and how they stand in memory.
pub mod Interface
pub mod Layout
pub mod Offsets
