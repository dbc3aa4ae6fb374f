pub mod Kinds
pub mod Ends
pub mod Opens
pub mod Releases
pub mod Nexts
pub mod Counted
pub mod Rows
