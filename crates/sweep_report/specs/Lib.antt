pub mod Findings
pub mod Tallies
pub mod Keys
