pub mod Reads
pub mod Faults
pub mod Rules
pub mod Headers
pub mod Maps
pub mod Images
