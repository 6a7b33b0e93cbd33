-- Laws of the walk, the throw and the sweep, each file named after what it is about.
pub mod Opened
pub mod Walks
pub mod Steps
pub mod Meeting
pub mod Searching
pub mod CleanupPhase
pub mod Calls
pub mod Batching
pub mod Throwing
pub mod Told
