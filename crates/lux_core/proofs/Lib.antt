-- The lemmas, a file for each topic.
pub mod ClaimAnswers
pub mod Complete
pub mod Digits
pub mod LampLists
pub mod Statuses
pub mod Luminaires
pub mod Marks
pub mod Served
