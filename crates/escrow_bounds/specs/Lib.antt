pub mod Column
pub mod Parts
pub mod Law
