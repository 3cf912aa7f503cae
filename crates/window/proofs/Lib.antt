-- The laws that the proofs of `window` cite, and those that callers of it cite.
pub mod Numbers
pub mod Signs
pub mod Steps
pub mod MaxWnd
pub mod Keeps
pub mod Tests
