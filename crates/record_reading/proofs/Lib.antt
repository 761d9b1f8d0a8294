pub mod Completing
pub mod Grouping
pub mod Changing
pub mod Spelling
