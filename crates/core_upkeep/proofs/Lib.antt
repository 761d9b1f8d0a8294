pub mod Kept
pub mod Cleanable
pub mod Cleaned
pub mod Removed
pub mod Candidates
