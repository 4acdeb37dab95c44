-- The definitions, a file for each topic.
pub mod Bracket
pub mod Dimmed
pub mod Dimming
pub mod FaultText
pub mod GroupAverages
pub mod LightLaws
pub mod Lines
pub mod Members
pub mod OneGroup
pub mod PlanFile
pub mod SameGeometry
pub mod Search
pub mod Steps
mod PlanFileTests
mod StepTests
