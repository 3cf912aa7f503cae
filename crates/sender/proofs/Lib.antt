-- The laws that the proofs of `sender` share.
pub mod Sounds
pub mod Views
pub mod Starts
pub mod Rowing
pub mod Refusals
pub mod Stepping
pub mod Kept
