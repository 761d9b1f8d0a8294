pub mod Languages
pub mod Readers
pub mod Places
