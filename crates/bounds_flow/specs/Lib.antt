pub mod Pointers
pub mod Flows
pub mod Settling
pub mod Conditions
pub mod Examples
pub mod Laws
pub mod Changes
