pub mod Pages
pub mod Programs
pub mod Rooms
pub mod Execve
