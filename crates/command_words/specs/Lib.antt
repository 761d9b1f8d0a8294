pub mod Commands
pub mod Init
pub mod Parts
pub mod Words
