pub mod Exchanges
pub mod Journalled
pub mod Serving
pub mod Working
pub mod Found
pub mod Due
