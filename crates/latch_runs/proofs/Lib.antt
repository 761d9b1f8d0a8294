pub mod Added
pub mod OneMore
