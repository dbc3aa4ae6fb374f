pub mod Checks
pub mod FaultyFields
pub mod Fields
pub mod Files
pub mod Headers
pub mod Images
pub mod Layout
pub mod Notes
