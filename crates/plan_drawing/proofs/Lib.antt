-- The lemmas, a file for each topic.
pub mod Growth
