pub mod Lamps
pub mod Directions
pub mod Shares
pub mod LampLight
pub mod Tables
pub mod Found
pub mod Ways
pub mod Laws
mod WayTests
mod LampTests
mod DirectionTests
mod ShareTests
