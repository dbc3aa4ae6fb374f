pub mod Beside
pub mod Likeness
