-- The lemmas, a file for each topic.
pub mod RoutePoints
pub mod LampPoints
pub mod LineParts
pub mod Marked
pub mod OuterEnds
pub mod Found
pub mod Ratios
pub mod Prints
