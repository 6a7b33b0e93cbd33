-- From the frame step to demand 3, in the order of document 01.
pub mod FrameStep
pub mod Search
pub mod Cleanup
pub mod Unwinding
pub mod Machine
pub mod Described
pub mod Event
pub mod Throw
pub mod Sound
pub mod Expected
pub mod Exactly
pub mod OtherStack
pub mod Demand
pub mod LiveStack
pub mod Between
pub mod Call
