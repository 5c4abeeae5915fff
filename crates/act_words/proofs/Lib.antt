pub mod Plain
mod Each
pub mod Back
pub mod Said
pub mod Views
