-- The demands over a replayed log, stated. `Recorded` has them sentence by sentence; `Histories` defines what it speaks of.
pub mod Histories
pub mod Recorded
