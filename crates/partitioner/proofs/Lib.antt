pub mod Numbers
pub mod Partitions
