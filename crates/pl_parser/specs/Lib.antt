pub mod Steps
pub mod Answer
