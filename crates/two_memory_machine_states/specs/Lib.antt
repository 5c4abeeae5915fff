pub mod Machines
pub mod Insides
pub mod Steps
pub mod Pushes
pub mod Ahead
