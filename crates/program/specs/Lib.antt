-- Version 2 state programs: their operations, what each does, and a run.
pub mod Operation
pub mod Near
pub mod Rule
pub mod Run
pub mod Public
pub mod Answers
pub mod Faults
