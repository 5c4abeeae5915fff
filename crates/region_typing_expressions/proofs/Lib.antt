mod CastParts
mod Crossing
mod Elements
mod Leading
mod Unmet
mod Written
pub mod Arguments
pub mod Comparing
pub mod Continuing
pub mod Conversions
pub mod CoreRows
pub mod MemberCells
pub mod Blocks
