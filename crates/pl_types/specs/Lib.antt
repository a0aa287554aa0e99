pub mod Refusals
pub mod Held
pub mod Tables
pub mod Slots
