-- The scenarios hold.
pub mod Computing
pub mod Rules
pub mod Runs
pub mod Irregular
pub mod LabelsAarch64
pub mod LabelsX86
pub mod BoundsAarch64
pub mod BoundsX86
pub mod FarAarch64
pub mod FarX86
pub mod TableBounds
pub mod LiveStack
pub mod Applied
pub mod Hold
pub mod Every
