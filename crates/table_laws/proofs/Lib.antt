pub mod Place
pub mod Tables
pub mod Sums
pub mod Kept
pub mod Stored
pub mod SetPlaces
