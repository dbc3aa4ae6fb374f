pub mod Faults
pub mod Tracing
pub mod Outlets
pub mod Writers
pub mod TurnsOut
pub mod Noting
pub mod Replays
pub mod Asked
