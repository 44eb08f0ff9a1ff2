pub mod Shelved
