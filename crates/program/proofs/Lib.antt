pub mod Decoding
pub mod CodeLength
