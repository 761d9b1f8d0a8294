pub mod Joining
pub mod Making
pub mod Telling
pub mod Short
pub mod Putting
pub mod Kept
