pub mod Walks
pub mod Frames
pub mod Pops
pub mod Nodes
pub mod Passes
pub mod SortTests
pub mod Starts
