pub mod Forms
pub mod Names
pub mod Numbered
pub mod Numbers
pub mod Operands
pub mod Statements
pub mod Strings
pub mod Text
