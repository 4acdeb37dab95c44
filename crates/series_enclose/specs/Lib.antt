pub mod Enclosed
pub mod Laws
pub mod Series
pub mod SeriesTests
pub mod Slant
pub mod Table
pub mod Turns
