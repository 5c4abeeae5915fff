mod Lists
mod Gaps
mod Ones
mod Tables
mod Rounds
mod Circles
mod Paths
mod Matrices
mod MatrixSteps
mod MatrixFacts
mod MatrixWays
mod MatrixNumbers
mod KeptTables
mod MatrixAnswers
pub mod TableConstants
pub mod TableNumbers
pub mod TableChanges
pub mod TableSteps
pub mod ShownTables
