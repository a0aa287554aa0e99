pub mod Numerals
pub mod Counting
pub mod Walking
pub mod RangeLaws
