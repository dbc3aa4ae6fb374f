pub mod Hosted
pub mod Plans
