pub mod LabelIndex
pub mod LabelSteps
pub mod LaidOut
pub mod LineSteps
pub mod Repeats
pub mod Sizes
