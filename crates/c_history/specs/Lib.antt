pub mod Text
pub mod Bounds
pub mod Lines
pub mod Adds
pub mod Readers
pub mod Replays
