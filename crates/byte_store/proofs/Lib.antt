pub mod Rewriting
pub mod Kept
