pub mod Boots
pub mod Directories
pub mod Environment
pub mod Files
pub mod Refusals
