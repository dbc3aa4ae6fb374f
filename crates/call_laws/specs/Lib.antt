pub mod Others
pub mod OnFiles
pub mod OnProcesses
pub mod Errors
pub mod Manual
