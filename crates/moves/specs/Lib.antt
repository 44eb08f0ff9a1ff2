pub mod Moves
pub mod Parts
pub mod Selectors
pub mod Sides
pub mod Text
