pub mod Table
pub mod Sums
pub mod Place
pub mod Kept
pub mod Laws
