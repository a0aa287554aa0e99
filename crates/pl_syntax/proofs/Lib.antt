pub mod ResourceLaws
pub mod Crossing
pub mod TreeLaws
mod StraightLaws
mod UnbuiltLaws
