pub mod Chosen
pub mod Columns
pub mod Pairs
pub mod Moving
pub mod Works
