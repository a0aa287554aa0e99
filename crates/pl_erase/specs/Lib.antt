pub mod Emitted
pub mod Built
