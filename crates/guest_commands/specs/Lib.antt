pub mod Drills
pub mod Plans
pub mod Serving
pub mod Statuses
