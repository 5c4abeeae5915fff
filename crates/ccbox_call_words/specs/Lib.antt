pub mod CommandLine
pub mod Requests
pub mod Pieces
pub mod Requested
pub mod Examples
pub mod Statuses
pub mod Given
