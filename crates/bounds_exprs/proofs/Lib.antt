pub mod Terms
pub mod Steps
pub mod Values
