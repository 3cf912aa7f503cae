-- What the contracts of `replay_report` cite.
pub mod Figures
pub mod Tallies
pub mod Statements
pub mod Ambiguous
