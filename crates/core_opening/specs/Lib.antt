pub mod Idle
pub mod Opening
