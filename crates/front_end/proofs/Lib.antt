pub mod Given
pub mod Placed
pub mod Refusing
pub mod Spoken
