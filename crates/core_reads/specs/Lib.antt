pub mod Fetching
