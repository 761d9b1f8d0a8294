pub mod Apart
pub mod Pieces
pub mod Ran
pub mod Going
pub mod Recovering
pub mod Serving
pub mod Texts
