-- The theorems, and the laws under them.
pub mod Replays
pub mod Single
pub mod Places
pub mod Theorems
pub mod Instance
