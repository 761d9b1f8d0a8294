pub mod Lists
pub mod Stored
pub mod Entries
pub mod Changes
pub mod Readying
pub mod Filling
