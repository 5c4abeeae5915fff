pub mod Code
pub mod Images
pub mod Sized
pub mod Correct
pub mod Examples
pub mod Views
