mod Cuts
mod ExprShapes
mod Turns
mod Grows
mod Called
mod Snocs
mod ComShapes
mod Sights
mod Laws
pub mod Bounds
mod Splits
mod Names
mod Passes
mod Blocked
mod Whole
mod Flow
