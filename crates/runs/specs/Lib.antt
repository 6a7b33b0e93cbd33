-- Scenarios of the call machine, on both architectures.
pub mod Scenario
pub mod LiveStack
pub mod Promises
pub mod Unusable
pub mod Aarch64
pub mod X86
pub mod BoundsAarch64
pub mod BoundsX86
pub mod FarAarch64
pub mod FarX86
pub mod ManyFrames
pub mod Irregular
pub mod TableBounds
