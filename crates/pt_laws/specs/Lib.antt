pub mod Stops
pub mod Polite
pub mod Hosts
