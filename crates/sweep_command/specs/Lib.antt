pub mod Choosing
pub mod Naming
pub mod Checks
pub mod Trials
pub mod Deep
pub mod Reports
pub mod Started
