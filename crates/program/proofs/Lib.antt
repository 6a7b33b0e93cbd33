-- The laws that callers cite, each file named after what it is about.
pub mod Form
pub mod Decoding
pub mod Near
pub mod Following
pub mod Offsets
pub mod Loop
pub mod Public
pub mod Enough
pub mod Stretch
pub mod Section
pub mod Proper
pub mod Refusals
pub mod Stops
pub mod Faults
