pub mod Cells
pub mod Masks
pub mod Slabs
pub mod Index
pub mod Vantages
pub mod Probes
pub mod Laws
mod CellsTests
mod ProbesTests
