-- Both sides of every number and rule of the parts that document 01 adds.
pub mod Row
pub mod Lending
pub mod Opening
pub mod Walk
pub mod Throw
pub mod Sweep
pub mod Many
pub mod Functions
pub mod Structs
pub mod Interface
pub mod Unwinding
pub mod Faults
pub mod Architectures
pub mod Chunk
pub mod Table
