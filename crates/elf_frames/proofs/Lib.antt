pub mod Runs
pub mod Fdes
pub mod Values
pub mod Stacks
