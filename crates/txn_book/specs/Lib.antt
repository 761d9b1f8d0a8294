pub mod Acts
pub mod Moves
pub mod Crashes
pub mod Opens
pub mod Txns
pub mod Books
pub mod Holding
