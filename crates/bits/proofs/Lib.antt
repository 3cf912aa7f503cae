-- Laws of bits and words that proofs share.
pub mod Digits
pub mod Words
pub mod Machine
