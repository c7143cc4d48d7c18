pub mod States
pub mod Histories
pub mod Promise
