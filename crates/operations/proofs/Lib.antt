pub mod Numbers
pub mod Sources
