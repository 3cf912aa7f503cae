-- The laws that the proofs of `c_api` share, the theorem on refused calls, the one on what the header calls const, the one on chunks, and
-- that no two outcomes satisfy one promise.
pub mod Answers
pub mod Flags
pub mod Singles
pub mod Handing
pub mod Parting
pub mod Machines
pub mod Stored
pub mod ChunkCalls
pub mod ReplayCalls
pub mod Header
pub mod Untouched
pub mod Constant
pub mod Unique
pub mod Lookings
pub mod Choosings
pub mod Plannings
