pub mod Init
pub mod OnDisk
pub mod Usage
