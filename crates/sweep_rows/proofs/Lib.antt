pub mod Counting
pub mod Alone
pub mod Indexing
pub mod Holding
pub mod Knowing
pub mod Numbers
pub mod Likening
pub mod Saying
