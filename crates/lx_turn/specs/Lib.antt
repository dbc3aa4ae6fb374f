pub mod Calls
pub mod Reactions
pub mod Linux
pub mod Fitting
pub mod Modes
pub mod Injection
pub mod Turned
