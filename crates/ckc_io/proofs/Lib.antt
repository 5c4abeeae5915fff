pub mod Found
pub mod Fronts
