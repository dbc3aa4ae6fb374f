pub mod Numbers
pub mod Tables
pub mod Entries
pub mod Index
pub mod Instructions
pub mod Rows
pub mod Frames
