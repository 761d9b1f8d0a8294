pub mod Reserved
pub mod Used
