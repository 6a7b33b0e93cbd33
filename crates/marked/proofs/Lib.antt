-- The joint statement of the marked examples.
pub mod Joint
