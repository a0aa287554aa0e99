pub mod Numbering
pub mod Sorted
pub mod Fragments
mod Examples
