pub mod Stored
pub mod Fold
pub mod Measured
pub mod Steps
pub mod AllRound
pub mod PlaneTests
mod DirectionTests
