-- What definitions are written with: choices by a test, tests, modes, and rows of refusals, verdicts; and what a promise is judged by.
pub mod Branch
pub mod Test
pub mod Mode
pub mod Rows
pub mod Unique
pub mod Verdict
