-- The laws that the functions' proofs and callers cite.
pub mod Fields
pub mod Headers
pub mod Records
pub mod Halving
pub mod Neighbours
pub mod InRange
pub mod Turns
pub mod Places
pub mod Opened
pub mod Ordered
pub mod Sounds
pub mod Tested
pub mod Sample
