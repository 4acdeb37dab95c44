pub mod Light
pub mod Scene
pub mod Assembled
pub mod Causes
pub mod Tables
pub mod Positions
pub mod Parts
pub mod Sight
pub mod Receivers
pub mod Reserved
pub mod Sources
pub mod RowSums
pub mod Laws
pub mod RoomValues
pub mod PointValues
pub mod Sums
pub mod ValueLaws
mod SceneTests
