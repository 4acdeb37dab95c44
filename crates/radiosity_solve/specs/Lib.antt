pub mod Shown
pub mod Laws
pub mod Bounds
pub mod SolveFault
pub mod Turn
pub mod Narrow
pub mod Composition
pub mod Claim
mod ShownTests
mod ClaimTests
mod BoundsTests
mod NarrowTests
