pub mod Forms
pub mod Inverse
mod Lists
mod Registers
pub mod Sizes
