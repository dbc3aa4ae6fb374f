pub mod Sections
pub mod Named
pub mod Symbols
pub mod Addresses
pub mod Callers
pub mod Ranges
