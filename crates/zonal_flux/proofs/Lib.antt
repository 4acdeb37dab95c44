-- The lemmas, a file for each topic.
pub mod Naturals
pub mod SolidAngles
pub mod Planes
pub mod Sectors
pub mod Within
pub mod ZoneSums
pub mod Prints
pub mod Spheres
pub mod EvenLamps
