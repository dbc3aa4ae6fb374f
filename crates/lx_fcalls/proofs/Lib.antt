pub mod Lengths
pub mod BlockingLaws
pub mod FileBlocking
pub mod Opening
pub mod FileAnswers
