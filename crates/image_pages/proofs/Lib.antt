pub mod Stored
pub mod Counted
