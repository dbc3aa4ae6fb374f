pub mod Turning
pub mod Kin
pub mod Burying
pub mod Calling
pub mod Families
pub mod Manual
pub mod Holders
