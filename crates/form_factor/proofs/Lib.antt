pub mod Divided
pub mod Apart
pub mod Pi
pub mod Kernel
pub mod Spread
pub mod Coefficients
