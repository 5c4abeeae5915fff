pub mod Parameters
pub mod Definitions
pub mod Initials
pub mod Items
pub mod Signatures
pub mod CoreParts
pub mod BoundsBelow
