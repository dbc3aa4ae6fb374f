pub mod Births
pub mod CallsFit
pub mod Consoles
pub mod LinuxLaws
pub mod ProcessesFit
pub mod Resuming
pub mod Steps
