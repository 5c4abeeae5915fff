pub mod Views
pub mod Conditions
