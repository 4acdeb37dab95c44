pub mod Totals
pub mod SentSteps
