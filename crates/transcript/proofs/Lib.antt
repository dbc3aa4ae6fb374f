pub mod Beginnings
pub mod Saying
