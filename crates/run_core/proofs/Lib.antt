mod Feeds
mod Dues
pub mod GaveParts
mod Reaching
mod ActsLeft
mod Goings
mod Playing
mod Nearing
mod Ending
mod Dumping
pub mod OneRun
pub mod SomeRun
