pub mod Table
pub mod Order
pub mod Points
pub mod Law
pub mod Suspects
