pub mod Quotes
pub mod Values
pub mod Keywords
pub mod Steps
pub mod Splits
pub mod Laws
pub mod Printing
pub mod Names
