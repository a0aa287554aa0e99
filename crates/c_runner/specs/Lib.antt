pub mod Numbers
pub mod Ends
pub mod Runs
pub mod Standings
pub mod Kept
