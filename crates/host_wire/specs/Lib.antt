pub mod Counting
pub mod Ends
pub mod Receiving
pub mod Streams
