-- Laws of wrapped numbers, over plain numbers.
pub mod Wraps
pub mod Counts
pub mod Cover
pub mod CoverWord
