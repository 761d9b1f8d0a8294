pub mod FirstLine
pub mod Pieces
pub mod Gathering
