pub mod Holding
pub mod Laws
pub mod Rows
pub mod Sums
pub mod Calls
pub mod Examples
pub mod Zeros
