pub mod Mentions
pub mod Given
pub mod Scopes
pub mod Naming
pub mod Meanings
