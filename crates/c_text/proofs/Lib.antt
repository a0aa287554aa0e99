pub mod NameSets
pub mod Starts
pub mod Texts
