pub mod Coming
pub mod Fitting
pub mod Serving
pub mod Losing
pub mod Living
pub mod Law
