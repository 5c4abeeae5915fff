pub mod Erased
pub mod ErasedMeaning
pub mod Stacks
pub mod Weights
pub mod Sides
pub mod Insert
pub mod Keeps
