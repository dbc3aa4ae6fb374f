pub mod Laid
pub mod Lists
pub mod Pages
pub mod RoundTrip
pub mod Spelled
pub mod Typed
