pub mod Types
pub mod Codes
pub mod Declaring
pub mod Layout
pub mod Insides
pub mod Examples
