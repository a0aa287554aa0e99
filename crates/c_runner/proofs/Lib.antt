pub mod Lists
pub mod Races
pub mod Ending
pub mod Still
pub mod Moved
pub mod Stepping
pub mod Keeping
pub mod Crossing
