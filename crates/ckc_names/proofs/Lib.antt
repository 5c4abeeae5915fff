pub mod Steps
pub mod Going
pub mod Rows
pub mod Endings
pub mod Names
pub mod Tables
pub mod Shown
pub mod Numbered
