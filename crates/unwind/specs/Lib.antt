-- What the functions answer, and what a turn of a loop comes to.
pub mod Answers
pub mod Turns
pub mod Batches
