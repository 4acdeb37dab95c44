-- The definitions, a file for each topic.
pub mod Room
pub mod RoomTests
