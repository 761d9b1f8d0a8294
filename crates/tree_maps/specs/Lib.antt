pub mod Keyed
pub mod Holding
