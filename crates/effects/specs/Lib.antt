pub mod Operands
pub mod Reading
pub mod Copies
