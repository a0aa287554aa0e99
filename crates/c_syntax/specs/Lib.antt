pub mod Tree
pub mod Plain
pub mod PreludeText
pub mod Text
pub mod Forms
pub mod Names
pub mod Rules
pub mod Fragment
