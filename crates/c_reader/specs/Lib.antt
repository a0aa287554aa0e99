pub mod Standing
pub mod Follow
pub mod Gathers
pub mod Reads
