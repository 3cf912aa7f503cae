-- What the contracts of `c_api` cite, and what the theorem on chunks speaks of.
pub mod Flags
pub mod Calls
pub mod Looks
pub mod Plans
pub mod Turns
pub mod Batch
pub mod Parts
pub mod Statements
