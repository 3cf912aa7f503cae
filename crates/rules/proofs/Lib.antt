-- The laws that proofs share.
pub mod Keys
pub mod Verdicts
