pub mod formers
pub mod Outside
pub mod Kept
pub mod Shown
pub mod Permission
pub mod Fraction
pub mod Mangling
pub mod Tokens
