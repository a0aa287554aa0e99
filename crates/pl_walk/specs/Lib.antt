pub mod Walk
pub mod Blocks
pub mod Shown
pub mod Ready
pub mod Texts
pub mod Says
