mod Recorded
mod TextLines
pub mod GivenActs
mod Cuts
pub mod Acts
