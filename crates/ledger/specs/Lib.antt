-- What the contracts of `ledger` cite.
pub mod Packets
pub mod Ring
pub mod Memory
pub mod Lent
pub mod Sound
pub mod Stretch
pub mod Steps
pub mod Seek
pub mod Rows
pub mod Bounds
pub mod Delivery
