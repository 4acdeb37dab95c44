pub mod Cuts
pub mod Surfaces
pub mod Patches
pub mod TaskPoints
pub mod Bounds
pub mod Tiling
pub mod PatchTests
