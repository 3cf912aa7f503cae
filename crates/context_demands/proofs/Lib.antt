-- The theorems, and the laws under them.
pub mod Exactly
pub mod Runs
pub mod Ones
pub mod Bursts
pub mod Sampled
pub mod Histories
pub mod Turns
pub mod Sending
pub mod Sends
pub mod Instance
pub mod Theorems
pub mod Unique
pub mod Edges
pub mod Cases
