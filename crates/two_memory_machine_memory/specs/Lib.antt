pub mod Places
pub mod CallStacks
pub mod CallInsides
pub mod Texts
pub mod Faults
pub mod CheckedNumbers
pub mod NearEnds
