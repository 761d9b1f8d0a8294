pub mod Exchanges
pub mod Histories
pub mod Latched
pub mod Turns
pub mod Views
pub mod Words
