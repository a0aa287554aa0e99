pub mod Correct
pub mod Exact
pub mod Failing
pub mod Firsts
pub mod Levels
pub mod Probe
pub mod Turns
pub mod Words
