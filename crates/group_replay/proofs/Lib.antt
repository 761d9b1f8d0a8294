pub mod Walking
pub mod Rows
pub mod Replacing
pub mod Telling
