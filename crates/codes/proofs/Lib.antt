pub mod Halves
pub mod Tables
