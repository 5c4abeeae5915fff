mod Windows
mod Stacked
pub mod Statics
mod TextCounts
