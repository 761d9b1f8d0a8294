pub mod Entries
pub mod Texts
pub mod Few
pub mod Standing
pub mod Bearing
