pub mod Texts
pub mod Saying
pub mod Lengths
pub mod Lines
