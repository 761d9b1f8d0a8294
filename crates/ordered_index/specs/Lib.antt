pub mod Row
pub mod Sound
pub mod Flat
pub mod Tree
pub mod Good
pub mod Drawn
pub mod Bound
pub mod Calls
