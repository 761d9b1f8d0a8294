pub mod Copies
pub mod Below
