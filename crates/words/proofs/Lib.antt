pub mod Exactness
pub mod Comparing
pub mod FirstOnes
pub mod Rotations
