pub mod Refusals
pub mod Marks
pub mod Cells
pub mod Works
pub mod LawfulWorks
pub mod Joins
pub mod LawfulJoins
