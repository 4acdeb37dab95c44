-- The lemmas, a file for each topic.
pub mod SoFar
pub mod Records
