mod Keeps
pub mod Runs
pub mod Worlds
mod Paces
pub mod Left
pub mod Due
pub mod Fitting
