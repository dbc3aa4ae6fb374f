pub mod ThreadRuns
pub mod Idle
pub mod InTurn
