pub mod Ends
pub mod Lines
pub mod OpenCalls
pub mod Printing
pub mod Results
pub mod Signals
