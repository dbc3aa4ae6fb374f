pub mod Lists
pub mod Turning
pub mod Asking
pub mod Stops
pub mod Once
pub mod Worlds
pub mod Hosts
