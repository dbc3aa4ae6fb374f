pub mod Known
pub mod Named
pub mod Plans
pub mod Shown
pub mod Worlds
