-- The definitions, a file for each topic.
pub mod Escaped
pub mod Fixed
pub mod Style
pub mod Opening
pub mod Cards
pub mod Lamps
pub mod Files
pub mod Surfaces
pub mod Points
pub mod Account
pub mod Page
mod PageTests
