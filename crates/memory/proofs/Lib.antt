pub mod Answers
pub mod Opens
pub mod Joining
pub mod Laws
pub mod Lending
