pub mod Candidates
pub mod Found
pub mod Meeting
pub mod Ordered
pub mod RowTest
pub mod Neighbours
pub mod Tangents
