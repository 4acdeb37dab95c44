pub mod Coefficient
pub mod CoefficientTests
pub mod Weights
pub mod Divisor
pub mod Laws
