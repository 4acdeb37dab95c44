pub mod Adapters
pub mod Faults
pub mod Files
mod FilesTests
pub mod MemShelf
pub mod MemSink
