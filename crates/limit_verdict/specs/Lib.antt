-- The definitions, a file for each topic.
pub mod Verdicts
pub mod VerdictTests
pub mod Laws
