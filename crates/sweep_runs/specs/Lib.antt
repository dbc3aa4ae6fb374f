pub mod Runs
pub mod Leaders
pub mod Cases
pub mod Rows
pub mod Trials
pub mod Behind
pub mod Deep
pub mod Seconds
