pub mod Cells
pub mod Bounds
