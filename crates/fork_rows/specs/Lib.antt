pub mod Rows
mod RowsTests
