-- The laws that the proofs of `text` share, and what crates above it cite of texts that were put.
pub mod Puts
pub mod Digits
pub mod Signs
