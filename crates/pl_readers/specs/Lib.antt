pub mod Bytes
pub mod Given
pub mod Language
pub mod Reader
pub mod Reads
