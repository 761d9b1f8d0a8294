pub mod KeptLaws
pub mod BlockLaws
