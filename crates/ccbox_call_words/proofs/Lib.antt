mod Cuts
mod Digits
mod Lists
pub mod Allowed
mod Matches
