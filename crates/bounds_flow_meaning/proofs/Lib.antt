pub mod Numbers
pub mod Rows
pub mod Validity
pub mod Facts
pub mod Formed
pub mod Pointers
pub mod Steps
pub mod Ways
pub mod Rejoined
pub mod AllSteps
pub mod Beside
pub mod Sums
pub mod Calls
mod Examples
pub mod Widening
pub mod Lengths
