-- The laws that the proofs of `flow_table` share.
pub mod Places
pub mod Records
pub mod Cuts
pub mod Turns
pub mod Plain
pub mod Again
pub mod Eight
pub mod Trips
