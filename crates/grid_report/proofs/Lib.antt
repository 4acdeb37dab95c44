-- The lemmas, a file for each topic.
pub mod GridOrder
pub mod Leasts
pub mod Printing
pub mod Reported
pub mod Right
pub mod Rooms
pub mod Shares
pub mod TickLeasts
pub mod Uniform
pub mod PatchBounds
