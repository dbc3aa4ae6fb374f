pub mod OptionFaults
pub mod Options
pub mod Plans
pub mod Copies
