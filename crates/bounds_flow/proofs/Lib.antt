pub mod Pointers
pub mod Variables
mod Answers
pub mod FlowSteps
