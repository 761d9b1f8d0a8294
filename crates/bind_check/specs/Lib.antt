pub mod Families
pub mod Joining
pub mod Shapes
pub mod Counting
