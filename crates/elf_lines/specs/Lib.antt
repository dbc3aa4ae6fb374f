pub mod Headers
pub mod Programs
pub mod Rows
pub mod Index
pub mod Files
pub mod Sources
