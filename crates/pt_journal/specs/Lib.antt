pub mod Journals
pub mod Told
pub mod Telling
pub mod Notes
