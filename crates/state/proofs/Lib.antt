-- The laws that callers cite, each file named after the definitions that it is about.
pub mod Entry
pub mod Pairs
pub mod Restore
pub mod Save
pub mod Public
pub mod Changes
pub mod Proper
pub mod Faults
