pub mod Headers
pub mod NamedHeaders
pub mod Found
pub mod Nearest
pub mod Ranges
