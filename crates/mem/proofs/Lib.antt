-- The laws that callers cite, each file named after the definition that it is about.
pub mod Tests
pub mod Place
pub mod Accepted
pub mod Part
pub mod Word
pub mod LittleEndian
pub mod Loaded
pub mod Bytes
pub mod Slot
pub mod OfWords
pub mod Sums
