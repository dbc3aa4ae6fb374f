pub mod Ends
pub mod Trials
pub mod Rows
pub mod Counts
