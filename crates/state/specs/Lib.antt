-- Unwind states: the entry state, the pair of a register, save, restore and slot.
pub mod State
pub mod Pairs
pub mod Save
pub mod Restore
pub mod Public
pub mod Answers
pub mod Faults
