pub mod Left
pub mod Slots
pub mod Latches
