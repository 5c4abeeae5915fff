pub mod Contexts
pub mod Waiting
pub mod ContextSteps
pub mod Selecting
pub mod Arguments
pub mod BoundsForms
pub mod TypedParts
mod NamedOperands
mod Ahead
mod Assignments
mod Blocks
mod FileLevel
mod NamedForms
