-- The definitions, a file for each topic.
pub mod Uniformities
pub mod Reports
pub mod Headline
pub mod Laws
pub mod ReportTests
pub mod PatchBounds
pub mod BoundsLaws
pub mod PatchBoundsTests
