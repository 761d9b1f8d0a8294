pub mod Books
pub mod Crews
