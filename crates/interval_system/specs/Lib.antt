pub mod Values
pub mod Whole
pub mod Equations
pub mod Radiosity
pub mod System
pub mod Ticks
pub mod Sent
mod RadiosityTests
mod SystemTests
mod SentTests
mod ValuesTests
