pub mod Sparse
pub mod LawfulSparse
