-- The lemmas, a file for each topic.
pub mod Escapes
pub mod Summaries
pub mod Pages
