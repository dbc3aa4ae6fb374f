pub mod Traced
pub mod Families
pub mod Limits
