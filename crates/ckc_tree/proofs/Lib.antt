pub mod TextRows
pub mod SameHeights
pub mod NumberedHeights
pub mod NumberedWeights
mod Rows
mod Decided
