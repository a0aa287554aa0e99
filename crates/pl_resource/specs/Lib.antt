pub mod Faults
pub mod GhostHeap
pub mod Heap
pub mod LockTable
pub mod Pieces
