pub mod Starts
pub mod Starting
pub mod Roomy
pub mod Lists
