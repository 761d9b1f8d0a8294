pub mod OnlyReads
pub mod Passing
pub mod Heading
pub mod Scans
pub mod Mapping
pub mod Paging
pub mod Outcomes
