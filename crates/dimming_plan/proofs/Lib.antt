-- The lemmas, a file for each topic.
pub mod Averaged
pub mod Causes
pub mod Geometry
pub mod Linear
pub mod Multiples
pub mod Numbered
pub mod PlanLamps
pub mod PlanLight
pub mod RoomCauses
pub mod RoomGroups
pub mod Searched
pub mod Six
