pub mod Boots
pub mod Culprits
pub mod Paths
pub mod First
pub mod Limits
pub mod Neighbours
