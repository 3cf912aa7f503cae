-- The laws that the proofs of `report_text` share.
pub mod Counting
pub mod Sheeting
