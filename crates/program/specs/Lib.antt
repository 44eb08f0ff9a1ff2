pub mod Refusals
pub mod Loading
pub mod Loads
