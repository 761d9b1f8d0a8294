pub mod Headers
pub mod Blocks
pub mod Stands
pub mod Marks
pub mod Cuts
