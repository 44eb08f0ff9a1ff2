pub mod Kinds
pub mod Refusals
pub mod Check
pub mod Layout
pub mod Asking
pub mod Headers
