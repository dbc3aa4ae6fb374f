pub mod Bridge
pub mod KernelLaws
pub mod Halts
