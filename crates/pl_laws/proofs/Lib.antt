pub mod GoodLaws
pub mod Locals
pub mod Rows
pub mod SameLaws
