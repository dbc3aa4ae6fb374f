pub mod Places
pub mod Steps
pub mod Switches
pub mod Plans
pub mod Met
pub mod Novelty
