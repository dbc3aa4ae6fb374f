pub mod Quiet
pub mod Whole
pub mod GoingOn
pub mod Leaving
pub mod Spent
pub mod Stuck
pub mod Shown
