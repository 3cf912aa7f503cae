-- What the contracts of `text` cite.
pub mod Decimal
pub mod Counts
