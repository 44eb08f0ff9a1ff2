pub mod Bundles
pub mod Endings
pub mod Tails
pub mod Text
