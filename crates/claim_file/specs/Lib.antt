-- The definitions, a file for each topic.
pub mod Claims
pub mod FaultText
pub mod Fits
pub mod Numbers
pub mod Rows
pub mod Writers
pub mod Written
mod ClaimTests
