-- What the contracts of `serial` cite.
pub mod Wrap
pub mod Psn
pub mod Count
