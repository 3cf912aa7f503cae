-- What the contracts of `sender` cite.
pub mod Limits
pub mod World
pub mod Lent
pub mod Named
pub mod Sound
pub mod Bounds
pub mod Rows
pub mod Steps
pub mod Start
pub mod Events
pub mod Look
pub mod Statements
