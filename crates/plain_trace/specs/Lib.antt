pub mod Laws
pub mod Reading
pub mod Shown
pub mod Traces
