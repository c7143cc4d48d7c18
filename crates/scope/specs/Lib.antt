pub mod Sight
pub mod Calls
