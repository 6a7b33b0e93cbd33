-- The joint statement, and its parts.
pub mod Computing
pub mod Opening
pub mod Walk
pub mod Throw
pub mod Sweep
pub mod Many
pub mod Interface
pub mod Unwinding
pub mod Faults
pub mod Architectures
pub mod Chunk
pub mod Joint
