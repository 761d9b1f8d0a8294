pub mod Naming
pub mod OnDisk
pub mod Opening
