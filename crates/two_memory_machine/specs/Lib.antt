pub mod Families
pub mod Running
pub mod Told
pub mod Together
pub use Rattle.two_memory_machine_states.specs.Machines
