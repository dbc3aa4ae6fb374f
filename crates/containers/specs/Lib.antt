pub mod Contents
pub mod Keys
pub mod Lending
pub mod Vacant
