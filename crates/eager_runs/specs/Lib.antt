pub mod Runs
pub mod Replays
pub mod Traces
pub mod Rows
