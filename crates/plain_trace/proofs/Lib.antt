pub mod Feeding
pub mod Logs
pub mod Showing
