pub mod Cut
pub mod Filled
pub mod HeapLaws
pub mod Swapped
