pub mod Listed
pub mod Maps
pub mod NextKeys
pub mod Vacant
