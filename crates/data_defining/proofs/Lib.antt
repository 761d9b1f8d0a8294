pub mod NewRows
pub mod Defined
pub mod Adding
pub mod TableReads
pub mod Beside
pub mod Names
pub mod Short
