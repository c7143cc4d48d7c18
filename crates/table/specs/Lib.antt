pub mod Stretches
pub mod Sorts
pub mod Walk
pub mod Measured
pub mod Pieces
