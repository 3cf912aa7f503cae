-- What the contracts of `paths` cite.
pub mod Path
