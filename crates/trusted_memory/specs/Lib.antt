pub mod Memories
pub mod Insides
