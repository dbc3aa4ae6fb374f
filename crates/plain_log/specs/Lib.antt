pub mod Lines
pub mod Logged
pub mod Logs
pub mod Rooms
