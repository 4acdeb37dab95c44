-- The definitions, a file for each topic.
pub mod Spelled
pub mod Grid
pub mod Judged
pub mod Laws
pub mod Writing
pub mod SpelledTests
