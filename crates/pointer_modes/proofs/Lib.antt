pub mod Cells
pub mod Layouts
mod Giving
