pub mod CutLaws
pub mod Lists
pub mod Rows
pub mod Counts
pub mod PatchLaws
pub mod Fits
