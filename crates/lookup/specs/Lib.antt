-- EKO tables in a part: fields, headers, records, the search of a chunk, the chunks and records of a part, lookup, when tables are sound,
-- and what the steps of the code say of each other.
pub mod Field
pub mod Header
pub mod Record
pub mod Search
pub mod Tables
pub mod Lookup
pub mod Sound
pub mod Steps
