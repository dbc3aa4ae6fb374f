pub mod Filed
pub mod Variables
pub mod Worded
