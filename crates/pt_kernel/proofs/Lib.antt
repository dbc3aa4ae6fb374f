mod LinuxTold
pub mod Telling
pub mod Leaving
pub mod Turning
pub mod Answering
pub mod Sweeping
pub mod Keeping
pub mod NextAble
pub mod Advancing
pub mod Alike
pub mod Noting
pub mod Feeding
pub mod Called
pub mod Sights
pub mod EagerTurns
