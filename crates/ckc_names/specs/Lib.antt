pub mod Progress
pub mod Slices
pub mod Named
pub mod Examples
pub mod State
pub mod NameLists
pub mod Insides
