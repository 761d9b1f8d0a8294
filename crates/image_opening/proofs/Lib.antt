pub mod Sizes
pub mod Scanned
pub mod Texts
pub mod Opening
