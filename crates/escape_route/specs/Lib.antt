-- The definitions, a file for each topic.
pub mod Routes
pub mod Extremes
pub mod Light
pub mod Found
pub mod Ratios
pub mod Printed
pub mod Laws
mod RouteTests
mod ExtremeTests
mod PrintedTests
