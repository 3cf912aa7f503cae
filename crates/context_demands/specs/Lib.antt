-- The demands over a table of flows (request M-107), stated. `Demands` has them sentence by sentence; the others define what it speaks of.
pub mod Events
pub mod Sums
pub mod Burst
pub mod Permitted
pub mod Demands
pub mod Turns
pub mod Cases
