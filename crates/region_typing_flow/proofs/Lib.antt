pub mod Below
mod Assigned
mod Rows
