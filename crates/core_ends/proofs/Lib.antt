pub mod Begins
pub mod Leaves
pub mod Past
pub mod LogEnds
