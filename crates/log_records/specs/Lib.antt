pub mod Spelling
pub mod Lent
pub mod Reading
pub mod Buffer
pub mod Area
pub mod Scan
