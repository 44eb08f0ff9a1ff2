pub mod Bits
pub mod Made
