pub mod Sixteen
