pub mod ReplayLaws
pub mod SameEvents
pub mod SmallNumbers
pub mod NumberTexts
pub mod Exactly
pub mod ActionLaws
pub mod LineLaws
