-- Laws of the answers.
pub mod Memory
