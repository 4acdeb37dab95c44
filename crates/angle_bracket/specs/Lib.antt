pub mod Angles
pub mod Direction
pub mod Found
pub mod DirectionTests
pub mod Laws
