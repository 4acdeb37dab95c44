-- The definitions, a file for each topic.
pub mod Zones
pub mod Fluxes
pub mod Printed
pub mod Laws
pub mod Steps
pub mod ZoneTests
pub mod FluxTests
pub mod PrintedTests
