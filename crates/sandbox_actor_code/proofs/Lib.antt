mod WaitingRows
mod OpenCalls
mod Paces
mod StepsFall
mod Led
mod Shown
pub mod OneAnswer
