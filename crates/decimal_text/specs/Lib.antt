pub mod Decimals
pub mod DecimalTests
pub mod Lines
pub mod Numbers
pub mod NumberTests
pub mod Parts
pub mod Steps
