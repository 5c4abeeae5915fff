mod Callers
mod Refusals
pub mod Moving
pub mod Ends
pub mod Outcomes
