-- The lemmas, a file for each topic.
pub mod Back
pub mod Decimals
pub mod Digits
pub mod Entries
pub mod Fitting
pub mod Records
pub mod Taking
pub mod Texts
pub mod Writing
