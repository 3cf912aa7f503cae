-- The theorems, and the laws under them.
pub mod Runs
pub mod Pasts
pub mod Histories
pub mod Sounded
pub mod Ledgers
pub mod Statuses
pub mod Bursts
pub mod Delivered
pub mod Instance
pub mod Steady
pub mod Sampled
pub mod Averaged
pub mod Cases
pub mod Unique
pub mod Theorems
