pub mod Owing
pub mod Underway
pub mod Undoing
pub mod Writing
