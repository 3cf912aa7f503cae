-- The laws that the proofs of `replay_stream` share.
pub mod Behind
pub mod Opened
pub mod PlayLines
pub mod Standing
pub mod Ends
pub mod Lending
