mod Arguments
mod Below
pub mod Going
pub mod Searches
pub mod FileLevel
pub mod Tables
pub mod Steps
pub mod Innermost
pub mod Settled
pub mod Entailing
pub mod Declaring
mod Cells
pub mod TextSearch
