mod Pops
mod Tries
pub mod Stepped
mod Turns
pub mod MadeTogether
pub use Rattle.two_memory_machine_states.proofs.Moving
