pub mod Status
pub mod Run
pub mod Recovered
pub mod Lines
pub mod Writing
pub mod Summary
pub mod Making
