pub mod Noting
pub mod Turning
