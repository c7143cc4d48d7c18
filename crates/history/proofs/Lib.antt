pub mod Plain
pub mod Held
mod Rules
mod Moves
pub mod Whole
mod Replies
