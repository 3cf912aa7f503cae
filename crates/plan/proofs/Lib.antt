-- The laws that the proofs of `plan` share, the theorems on the judge and the planner, and that no two outcomes satisfy one promise.
pub mod Judging
pub mod Packets
pub mod Agrees
pub mod Made
pub mod Seeks
pub mod Courses
pub mod Coursing
pub mod Plans
pub mod Proposals
pub mod Lengths
pub mod Theorems
pub mod Unique
