pub mod Room
pub mod Putting
