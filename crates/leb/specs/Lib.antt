-- Unsigned LEB128: the DWARF standard's encoding, and the reader.
pub mod Encoding
pub mod Reader
pub mod Meaning
pub mod Faults
