pub mod CallFrames
pub mod CallFrameInsides
pub mod WaitingStacks
pub mod WaitingInsides
pub mod Answering
pub mod StepsLeft
pub mod Codes
pub mod CodeInsides
