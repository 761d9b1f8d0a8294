pub mod KeptKnown
pub mod Carried
pub mod Parts
pub mod Least
pub mod Given
pub mod Saved
