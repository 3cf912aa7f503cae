-- What the contracts of `plan` cite.
pub mod Plan
pub mod Judge
pub mod Planner
pub mod Ahead
pub mod Course
pub mod Statements
