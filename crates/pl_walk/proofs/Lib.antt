pub mod BlockLaws
pub mod NameLaws
pub mod Reaching
pub mod TextLaws
pub mod WalkLaws
pub mod Example
pub mod BodyLaws
