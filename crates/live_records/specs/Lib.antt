pub mod Keyed
pub mod Live
