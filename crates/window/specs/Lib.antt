-- What the contracts of `window` cite.
pub mod Limits
pub mod Range
pub mod Fields
pub mod Sound
pub mod Sample
pub mod Delays
pub mod Quick
pub mod Cases
pub mod Adjust
pub mod Events
