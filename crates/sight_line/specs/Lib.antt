pub mod Sight
pub mod Reach
pub mod Clip
pub mod Laws
mod SightTests
