pub mod ErrnoNumbers
pub mod Finds
pub mod SignalNumbers
pub mod Reading
pub mod Counting
