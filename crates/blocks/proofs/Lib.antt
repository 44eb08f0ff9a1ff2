pub mod Rotation
pub mod Bytes
pub mod Asked
pub mod OnlySealed
pub mod ReadsBack
