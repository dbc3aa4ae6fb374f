pub mod Able
pub mod Stepping
pub mod Drawing
pub mod Wording
pub mod Joined
