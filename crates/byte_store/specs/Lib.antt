pub mod Layout
pub mod Free
pub mod Laws
