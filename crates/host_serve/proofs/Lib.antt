pub mod Conversing
mod Nexts
mod Ready
