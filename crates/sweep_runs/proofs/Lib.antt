pub mod Reaching
pub mod Leaders
pub mod Comparing
