-- Memory as a call sees it: what is lent, when it is accepted, where bytes stand, little-endian words, slots, and sums that wrap.
pub mod Memory
pub mod Given
pub mod Opening
pub mod Place
pub mod Part
pub mod Word
pub mod Slot
pub mod Wrapping
