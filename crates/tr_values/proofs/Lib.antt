pub mod Places
pub mod Spelled
pub mod Texts
