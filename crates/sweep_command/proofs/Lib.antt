pub mod Cutting
pub mod Judged
pub mod Marking
pub mod Numbering
