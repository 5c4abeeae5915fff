pub mod Texts
pub mod Names
pub mod Places
pub mod Offsets
pub mod Refusals
