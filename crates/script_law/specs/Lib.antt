pub mod Seen
pub mod Programs
pub mod RunLines
pub mod Laws
pub mod Machine
pub mod Works
pub mod Sessions
