pub mod Recordings
pub mod Answers
pub mod ActLists
pub mod Lines
pub mod ListActors
