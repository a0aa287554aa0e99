pub mod Evaluation
pub mod Scope
pub mod Normal
pub mod Meaning
pub mod Promises
pub mod Putting
