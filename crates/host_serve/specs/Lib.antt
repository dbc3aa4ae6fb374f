pub mod Hosted
pub mod Keeping
pub mod Numbers
pub mod Requests
pub mod Serving
pub mod Streams
pub mod Together
