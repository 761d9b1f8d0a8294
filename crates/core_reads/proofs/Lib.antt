pub mod Fetched
pub mod Peeks
