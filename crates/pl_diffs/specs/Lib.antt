pub mod Differences
pub mod Outcome
pub mod Rounds
pub mod Walk
