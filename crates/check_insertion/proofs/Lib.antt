pub mod Following
pub mod Insertions
pub mod Made
pub mod Named
pub mod Rows
pub mod Sizes
