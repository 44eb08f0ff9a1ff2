pub mod Books
pub mod LawfulBooks
