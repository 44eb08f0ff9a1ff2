pub mod Kinds
pub mod Operands
pub mod Operations
pub mod Places
pub mod Text
pub mod Words
