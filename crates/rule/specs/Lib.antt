pub mod Pieces
pub mod Seen
pub mod Shown
pub mod Rows
pub mod Shapes
pub mod Said
pub mod Accepted
