pub mod Codes
pub mod Labels
pub mod Lines
pub mod Listing
