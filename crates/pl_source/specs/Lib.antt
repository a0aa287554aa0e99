pub mod Machine
pub mod Good
pub mod Steps
