pub mod Steps
pub mod Chains
pub mod Walks
pub mod Paths
pub mod Solving
