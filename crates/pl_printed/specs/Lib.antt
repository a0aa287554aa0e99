pub mod Bare
pub mod Levels
pub mod Printable
