pub mod Ladder
pub mod Statements
pub mod Levels
pub mod Passing
