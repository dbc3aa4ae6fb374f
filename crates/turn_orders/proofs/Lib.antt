pub mod Spreading
pub mod Lists
pub mod Meeting
pub mod Rounds
pub mod Spreads
pub mod Each
