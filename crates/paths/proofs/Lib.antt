-- The laws that the proofs of `paths` share, and what they say of the choice.
pub mod Walk
pub mod Circle
pub mod Chosen
