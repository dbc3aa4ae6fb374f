pub mod Finding
pub mod Children
pub mod Releasing
pub mod Free
pub mod Blocking
pub mod ProcessAnswers
