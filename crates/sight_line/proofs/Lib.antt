pub mod Ratios
pub mod Planes
pub mod Ends
pub mod Pairs
pub mod Decided
pub mod First
