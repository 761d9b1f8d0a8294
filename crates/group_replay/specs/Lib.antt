pub mod Closed
pub mod Adding
