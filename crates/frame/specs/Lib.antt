-- The caller's registers: from an unwind state (`apply`) and from a version 1 frame word (`step`).
pub mod Layout
pub mod Apply
pub mod Frame
pub mod Step
pub mod ReadAs
pub mod Public
pub mod Answers
pub mod Near
