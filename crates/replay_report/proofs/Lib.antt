-- The laws that the proofs of `replay_report` share, the theorems of requests M-105 and M-106, and that no
-- two outcomes satisfy one promise.
pub mod Buckets
pub mod Adding
pub mod Tallies
pub mod Layers
pub mod Exact
pub mod Highest
pub mod Totals
pub mod Sent
pub mod Parts
pub mod Alike
pub mod Served
pub mod Ambiguous
pub mod Instance
pub mod Unique
