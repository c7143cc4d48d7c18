pub mod Binds
mod Types
mod Sameness
mod Accepted
mod Spelled
pub mod Read
mod Traces
mod Expressions
pub mod Commands
mod World
mod Sim
mod Names
mod Steps
mod Checked
pub mod Sound
mod Judged
