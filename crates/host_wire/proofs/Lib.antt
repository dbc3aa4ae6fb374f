pub mod Gathered
pub mod Streams
pub mod Written
pub mod Spelled
