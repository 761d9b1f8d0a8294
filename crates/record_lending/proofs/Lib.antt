pub mod Lent
pub mod Short
pub mod Owed
