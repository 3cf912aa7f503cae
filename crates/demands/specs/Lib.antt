-- The demands, stated. `Demands` has them sentence by sentence; the others define what it speaks of.
pub mod Events
pub mod Sums
pub mod Burst
pub mod Samples
pub mod Past
pub mod Demands
pub mod Cases
pub mod Statuses
