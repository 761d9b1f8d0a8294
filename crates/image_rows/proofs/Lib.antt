pub mod NumberBytes
pub mod Entries
pub mod Walking
pub mod Rising
