pub mod Nodes
pub mod Ordered
pub mod Shuffled
pub mod Nearest
pub mod Seeking
