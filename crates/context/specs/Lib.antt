-- What the contracts of `context` cite.
pub mod Context
pub mod Sound
pub mod Walk
pub mod Rows
pub mod Events
pub mod Look
pub mod Turns
pub mod Lent
pub mod Table
pub mod Start
pub mod Statements
