pub mod Meeting
pub mod Parsing
pub mod PartLaws
pub mod Shapes
