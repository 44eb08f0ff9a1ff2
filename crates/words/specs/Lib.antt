pub mod Words
pub mod Sums
pub mod Conditions
pub mod Comparisons
pub mod Shifts
pub mod Bits
pub mod Latch
pub mod Numbers
