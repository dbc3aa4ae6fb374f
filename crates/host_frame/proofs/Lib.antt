pub mod Asks
pub mod Fitting
pub mod Messages
pub mod Whole
