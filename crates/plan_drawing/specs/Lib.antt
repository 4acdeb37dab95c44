-- The definitions, a file for each topic.
pub mod Pieces
pub mod Metres
pub mod Sizes
pub mod Steps
pub mod Frame
pub mod Light
pub mod Captions
pub mod Things
pub mod Figures
mod DrawingTests
