pub mod Families
pub mod Holders
pub mod Manual
