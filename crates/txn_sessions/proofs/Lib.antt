pub mod Saved
pub mod Starts
pub mod Works
pub mod Answering
pub mod Kept
pub mod Counted
