pub mod Short
pub mod Made
pub mod Needs
pub mod Roomier
pub mod Entered
pub mod Fitting
pub mod Recorded
