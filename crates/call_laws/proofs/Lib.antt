pub mod Entries
pub mod Outcomes
pub mod OnFiles
pub mod OnProcesses
pub mod Errors
pub mod Manual
