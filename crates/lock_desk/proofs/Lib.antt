pub mod Requests
mod Dropping
