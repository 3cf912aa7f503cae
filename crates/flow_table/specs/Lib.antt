-- What the contracts of `flow_table` cite.
pub mod Words
pub mod Parts
pub mod Lent
