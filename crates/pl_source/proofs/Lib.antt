pub mod HeapLaws
pub mod StepLaws
