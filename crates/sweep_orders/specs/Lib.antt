pub mod Draws
pub mod Trials
pub mod Found
pub mod Orders
