pub mod Words
pub mod Changes
pub mod Pins
pub mod Held
