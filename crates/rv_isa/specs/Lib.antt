pub mod Decoding
pub mod Fields
pub mod Forms
pub mod Spelling
pub mod Table
