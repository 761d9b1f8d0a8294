pub mod Oldest
pub mod Cleaning
