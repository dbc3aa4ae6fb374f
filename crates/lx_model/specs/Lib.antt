pub mod Machine
pub mod Rows
pub mod Turn
pub mod Kernel
pub mod Finite
pub mod Events
pub mod Laws
pub mod KernelLaws
