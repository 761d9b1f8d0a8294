pub mod Storing
pub mod Texts
