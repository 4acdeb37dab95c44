pub mod Place
pub mod Across
pub mod AcrossTests
pub mod PlaceTests
pub mod Positions
pub mod Checks
pub mod Layout
pub mod LayoutTests
pub mod Accepted
pub mod FaultText
pub mod FaultTextTests
pub mod Files
pub mod Kept
mod KeptTests
pub mod Laws
