pub mod NumberSteps
pub mod Registers
pub mod StringSteps
